-- Inner: what is put on a page. Nobody has to believe it: no public contract cites it.
-- Assumes nothing.
use Rattle.std.specs.Prelude.{◌≡◌, List, ℕ, ◌+◌, length}
use Rattle.std.proofs.lemmas.List.Edits.{sets}
use Rattle.text.specs.declared.page.Page.{Page}

-- bytes put from a place on, as far as the buffer reaches, and the place after them
pub record Put (text : List ℕ) (at : ℕ) (bytes : List ℕ) (next : ℕ) (text' : List ℕ) : Type 0 where
  pub next_is : next ≡ at + length bytes
  pub text_is : text' ≡ sets text at bytes

-- bytes put on a page, after those so far
pub record Puts (p : Page) (bytes : List ℕ) (q : Page) : Type 0 where
  pub put : Put p.bytes.now p.len bytes q.len q.bytes.now
  pub same : q.bytes.ghost_name ≡ p.bytes.ghost_name

-- the places of a page: its length is answered as a number of 32 bits
abbrev pub places : ℕ
places = 4294967296
