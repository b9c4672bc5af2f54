-- What reading and writing a field file do one after the other.
pub mod RoundTrips
