mod NumberLemmas
mod AsciiLemmas
mod SaidLemmas
mod FrontLemmas
mod TokensLemmas
