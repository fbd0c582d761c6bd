-- Laws that belong to no one function: what is answered at each way out.
pub mod Asked
