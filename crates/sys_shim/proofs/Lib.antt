mod CopyLemmas
mod ReadLemmas
