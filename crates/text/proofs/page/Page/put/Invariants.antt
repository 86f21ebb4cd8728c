-- `text::Page::put` meets its contract. The invariant: what is left, put from here on, makes what the whole makes. Assumes nothing.
use mathlib.Core.Path.{◌≡◌}
use Prim.Native.Nat.{◌+◌}
use lib.ListN.{drop}
use lib.Seq.{sets}
use Rattle.text.proofs.page.Page.put.Given as goal

abbrev pub invariant-loop-byte : goal.invariant-loop-byte
invariant-loop-byte l = record {
  at : l.at ≡ l.initial.self.len + l.byte-index;
  bytes : sets l.initial.self.bytes.now l.initial.self.len l.text ≡ sets l.self.bytes.now l.at (drop l.byte-index l.text);
  same : l.self.bytes.ghost_name ≡ l.initial.self.bytes.ghost_name;
}
