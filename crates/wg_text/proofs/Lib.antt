mod CutLemmas
mod MapLemmas
mod NumberLemmas
mod PieceLemmas
