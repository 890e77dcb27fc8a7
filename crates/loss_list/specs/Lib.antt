pub mod LossList
