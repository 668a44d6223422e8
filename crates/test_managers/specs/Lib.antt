pub mod Lenders
