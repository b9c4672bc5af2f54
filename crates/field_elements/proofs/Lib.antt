-- Laws of an element's numbers and of loading.
pub mod ElementLaws
pub mod LoadLaws
