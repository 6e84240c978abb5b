pub mod IdTexts
pub mod LastIds
