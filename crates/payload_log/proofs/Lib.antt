pub mod BacklogLemmas
