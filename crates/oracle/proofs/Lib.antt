-- Laws that belong to no one function. Of the code: `Breaches` for the first breach of a list, `Least` for the least id with a
-- fault, `Committed` for the iterator over the committed ids, `Pass` for what each loop's turn and each way out of it shows,
-- `Say` for the verdict by its tests. Of the verdict: `Examples`, one of each answer.
pub mod Breaches
pub mod Least
pub mod Committed
pub mod Pass
pub mod Say
pub mod Examples
