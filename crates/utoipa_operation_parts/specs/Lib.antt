pub mod JsonSchema
pub mod RequestBody
pub mod Response
pub mod Responses
pub mod Parameter
pub mod Traits
pub mod Described
pub mod Members
