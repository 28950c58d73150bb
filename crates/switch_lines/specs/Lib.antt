pub mod SwitchLines
pub mod Laws
