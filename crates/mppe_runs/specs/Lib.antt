-- The runs of demand 3, of M-105 and of stateful modems, stated: what a reader must believe.
pub mod Run
pub mod AnyOrderRun
pub mod StatefulRun
