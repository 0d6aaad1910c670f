-- A text by the test of its content, and where what is read ends (specs/Item.antt of `cbor_item_spec`), in the code's own form. Assumes
-- nothing.
use mathlib.Core.Path.{◌≡◌, sym, ◌∙◌}
use mathlib.Core.Bool.{Bool, true, false}
use mathlib.Core.List.{List}
use Prim.Native.Nat.{ℕ, ◌+◌, ◌-◌, ◌≤◌}
use native.Mathlib.Nat.{add-sub_cancel_left}
use native.Mathlib.Omega.{arith}
use lib.ListN.{length, take, drop}
use Rattle.octets.specs.Bytes.{part}
use Rattle.octets.specs.Span.{Span, span_of}
use Rattle.exact.specs.Reads.{got}
use Rattle.exact.proofs.HoldsLaws.{held}
use Rattle.cbor_item_spec.specs.declared.Item.TheVariants.{Text}
use Rattle.std.proofs.Common.{Some, None}
use Rattle.cbor_item_spec.specs.Utf8.{is_utf8}
use Rattle.cbor_item_spec.specs.Head.{Head, head_at, span_in}
use Rattle.cbor_item_spec.specs.Item.{text_item}
use Rattle.cbor_item_spec.specs.Laws.{HeadTo, SpanTo}
use Rattle.cbor_item_spec.proofs.Laws.{heads_end, contents_end}

-- a text that is valid is answered, and one that is not is refused
module _ (s : List ℕ) (start len : ℕ) (valid : Bool) (test : valid ≡ is_utf8 (take (start + len - start) (drop start s))) where
  tested : is_utf8 (part s start len) ≡ valid
  unfolding part
  tested = sym (test ∙ rw add-sub_cancel_left)

  pub text_valid : valid ≡ true → Some (Text (record { start = start; len = len }), start + len) ≡ text_item s (got (span_of start len) (start + len))
  text_valid e = rw (tested, e)

  pub text_invalid : valid ≡ false → None ≡ text_item s (got (span_of start len) (start + len))
  text_invalid e = rw (tested, e)

-- a head that was answered ends within the bytes
pub head_in : (s : List ℕ) (at : ℕ) {h : Head} {next : ℕ} → got h next ≡ head_at s at → next ≤ length s
head_in s at e = (held (HeadTo s at) (heads_end s at) e).fits

-- so does the content of a string that was answered
pub span_in_lem : (s : List ℕ) (start n : ℕ) {c : Span} {next : ℕ} → start ≤ length s → got c next ≡ span_in s start n
    → c.start + c.len ≤ length s
span_in_lem s start n h e = let t = held (SpanTo s start) (contents_end s start n h) e in omega (arith, t.ends, t.fits)
