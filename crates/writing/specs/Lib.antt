-- Images laid out from records, what is lent to the writer, and the calls that write and take apart.
pub mod Laid
pub mod Lent
pub mod Calls
pub mod InBlocks
