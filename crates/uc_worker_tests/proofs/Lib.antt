pub mod BothWorkers
