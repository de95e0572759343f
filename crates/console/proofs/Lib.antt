mod LinesLemmas
mod PieceLemmas
mod SplitLemmas
