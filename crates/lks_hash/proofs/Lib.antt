pub mod RunningLaws
