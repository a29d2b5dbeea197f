pub mod Printing
pub mod Numbers
pub mod Rows
pub mod Page
