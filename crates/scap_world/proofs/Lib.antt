pub mod ContentsLemmas
pub mod CountsLemmas
pub mod FilesLemmas
pub mod ShelfLemmas
pub mod TablesLemmas
