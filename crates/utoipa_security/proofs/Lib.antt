pub mod KeyedFlows
pub mod Requirement
pub mod SchemeTypes
pub mod Scopes
pub mod SchemesWithoutReference
pub mod UnambiguousRequirements
