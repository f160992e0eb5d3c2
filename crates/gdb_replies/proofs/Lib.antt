pub mod MemoryDigits
