pub mod Printed
pub mod Composing
