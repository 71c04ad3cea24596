pub mod Books
