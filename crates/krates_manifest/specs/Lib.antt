pub mod ManifestFields
pub mod ResolverOf
pub mod ManifestFaults
