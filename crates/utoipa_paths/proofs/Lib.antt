pub mod Refused
pub mod ExtensionsInOrder
pub mod ItemSteps
pub mod OperationAdded
pub mod PathsViews
