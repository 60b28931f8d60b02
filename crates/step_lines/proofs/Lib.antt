-- A line read byte by byte is the line read whole, and a line that was written is read back.
pub mod ByBytes
pub mod ReadsBack
