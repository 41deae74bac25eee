-- Lemmas over plain lists.
mod PassLists
