mod Examples
mod Origins
mod Keys
mod Meant
mod Changing
mod Lists
mod TextLines
mod Unchanged
