pub mod AllNew
pub mod Goes
