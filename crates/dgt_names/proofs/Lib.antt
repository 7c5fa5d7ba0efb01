mod SaidOnce
pub mod SaidOrNot
