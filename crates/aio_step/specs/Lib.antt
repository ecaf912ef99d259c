pub use Rattle.aio_body.specs.Standing
pub use Rattle.aio_body.specs.Kept
pub use Rattle.aio_serve.specs.Acting
pub mod Stepping
pub mod Serving
