pub mod CertificateFields
pub mod CertificateRefusals
pub mod CertificateRoundTrip
pub mod CertificateTables
pub mod CertificateViews
pub mod Written
