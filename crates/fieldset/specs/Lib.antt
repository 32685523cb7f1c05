pub mod FieldsV1
pub mod Below
pub mod Views
pub mod FieldsV1Laws
