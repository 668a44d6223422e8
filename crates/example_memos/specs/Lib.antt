pub mod Memos
