pub mod FirstMisfits
