mod SameScopes
mod SameTypes
