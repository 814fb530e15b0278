pub mod Firsts
pub mod Groups
pub mod Products
pub mod Sorting
pub mod Walking
