pub mod RowCodes
