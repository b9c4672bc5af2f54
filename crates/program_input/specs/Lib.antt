-- What a program prints.
pub mod Printed
