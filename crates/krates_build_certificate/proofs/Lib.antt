pub mod CertificateAgain
pub mod CertificateFaults
