pub mod MembersRead
