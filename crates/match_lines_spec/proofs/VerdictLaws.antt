-- Laws of the verdict on a line: yes or no where the line has a pattern, a space and a path, and bad for any other line. They stand on
-- what matching promises alone. Assumes nothing.
use mathlib.Core.Path.{◌≡◌, refl, sym, ap, ◌∙◌, subst, ap₂}
use mathlib.Core.Logic.{◌↔◌, ◌⊎◌, inl, inr, ⊎_elim}
use mathlib.Core.Bool.{Bool, true, false, cond, ◌&&◌}
use mathlib.Core.List.{List, [], ◌∷◌, ◌++◌}
use Prim.Native.Nat.{ℕ, suc, ◌+◌, ◌≤◌, ◌<◌}
use native.Mathlib.Omega.{arith}
use lib.ListN.{length, take, drop, length-append}
use lib.Seq.{take_at}
use lib.Dec.{eqb, leb}
use borrow.Author.Tests.{eqb-true, leb-true, leb-false, le-leb, lt-leb}
use Rattle.std.proofs.Common.{Option, Some, None, Result, Ok, Err}
use Rattle.resource_spec.specs.declared.Malformed.{Malformed}
use Rattle.resource_spec.specs.Characters.{codes}
use Rattle.octets.specs.Scan.{bytes_before}
use Rattle.resource_spec.specs.Pattern.{Path, path_text, Pattern, pattern_text, admits, names_matched}
use Rattle.resource_spec.specs.Text.{is_pattern, is_resource, pattern_ok, resource_ok, numbers_of, yes_with, matching}
use Rattle.octets.proofs.Tests.{by_cond, and_left, and_right, no_flag}
use Rattle.octets.proofs.ScanLaws.{before_all}
use Rattle.resource_spec.proofs.Laws.{pattern_spaceless}
use Rattle.resource_spec.proofs.Promises.{patterns_exact, resources_exact, matching_exact, malformed15}
use Rattle.match_lines_spec.specs.declared.Verdict.{Verdict}
use Rattle.match_lines_spec.specs.declared.Verdict.TheVariants.{IsYes, IsNo, IsBad}
use Rattle.match_lines_spec.specs.Lines.{verdict_line, verdict_of, before_space, verdict_at, verdict}
use Rattle.match_lines_spec.specs.Promises.{Asks, BadElse}

-- ---- the first space of a line

-- a line with a space is what stands before it, the space, and what stands after it
parts_at : (line : List ℕ) → before_space line < length line → line
    ≡ take (before_space line) line ++ (32 ∷ drop (suc (before_space line)) line)
unfolding bytes_before
parts_at [] h = absurd (omega arith)
parts_at (b ∷ bs) h = go (eqb b 32) refl (parts_at bs)
  where
    go : (t : Bool) → eqb b 32 ≡ t → (before_space bs < length bs → bs ≡ take (before_space bs) bs ++ (32 ∷ drop (suc (before_space bs)) bs))
        → (b ∷ bs) ≡ take (before_space (b ∷ bs)) (b ∷ bs) ++ (32 ∷ drop (suc (before_space (b ∷ bs))) (b ∷ bs))
    go true e f = rw (e, bytes_before) (ap (λ (c : ℕ). c ∷ bs) (eqb-true b 32 e))
    go false e f =
        let k : before_space (b ∷ bs) ≡ suc (before_space bs) = rw (e, bytes_before) in
        rw k (ap (λ (l : List ℕ). b ∷ l) (f (omega arith)))

-- ---- what matching answers, from its numbers

-- the numbers for yes and no are those of yes and no alone
cond_matching : (m : Result (Option ℕ) Malformed) (b : Bool) (n : ℕ) → numbers_of m ≡ record { answer = 0; yes = cond b 1 0; names = n }
    → m ≡ Ok (yes_with b n)
cond_matching (Ok (Some k)) true n e = ap (λ (x : ℕ). Ok (Some x)) (ap (λ x. x.names) e)
cond_matching (Ok (Some k)) false n e = absurd (omega (arith, ap (λ x. x.yes) e))
cond_matching (Ok None) true n e = absurd (omega (arith, ap (λ x. x.yes) e))
cond_matching (Ok None) false n e = refl
cond_matching (Err malformed) b n e = absurd (omega (arith, ap (λ x. x.answer) e))

-- 15 is the number of malformed texts alone
bad_matching : (m : Result (Option ℕ) Malformed) → numbers_of m ≡ record { answer = 15; yes = 0; names = 0 } → m ≡ Err (record {})
bad_matching (Ok (Some k)) e = absurd (omega (arith, ap (λ n. n.answer) e))
bad_matching (Ok None) e = absurd (omega (arith, ap (λ n. n.answer) e))
bad_matching (Err malformed) e = refl

-- ---- the verdict

-- the verdict for yes or no
abbrev verdict_for : Bool → Verdict
verdict_for b = cond b IsYes IsNo

-- what stands after the first space
after_space : (l r : List ℕ) → drop (suc (length l)) (l ++ (32 ∷ r)) ≡ r
after_space [] r = refl
after_space (b ∷ bs) r = after_space bs r

-- a line that asks has the verdict yes or no
asks_verdict : (line : List ℕ) (p : Pattern) (x : Path) → Asks line p x → verdict line ≡ verdict_for (admits p x)
unfolding verdict verdict_at
asks_verdict line p x a =
    let l : List ℕ = pattern_text p in
    let r : List ℕ = path_text x in
    let n : before_space (l ++ (32 ∷ r)) ≡ length l = before_all 32 l r (pattern_spaceless p a.pattern) in
    let size : length (l ++ (32 ∷ r)) ≡ length l + suc (length r) = length-append l (32 ∷ r) in
    let fits : leb (length (l ++ (32 ∷ r))) 600 ≡ true =
    le-leb (length (l ++ (32 ∷ r))) 600 (omega (arith, size, a.pattern_fits, a.path_fits)) in
    let some : leb (length (l ++ (32 ∷ r))) (length l) ≡ false = lt-leb (length (l ++ (32 ∷ r))) (length l) (omega (arith, size)) in
    let m : matching l r ≡ Ok (yes_with (admits p x) (names_matched p x)) =
    cond_matching (matching l r) (admits p x) (names_matched p x)
    (matching_exact p x a.pattern a.path a.pattern_fits a.path_fits) in
    rw (a.spelled, fits, n, some, take_at l (32 ∷ r) (length l) refl, after_space l r, m) (go (admits p x) (names_matched p x))
  where
    go : (b : Bool) (n : ℕ) → verdict_of (Ok (yes_with b n)) ≡ verdict_for b
    go true n = refl
    go false n = refl

-- a text that may enter as a pattern is one, of 256 bytes at most
pattern_ok_lem : (s : List ℕ) → pattern_ok s ≡ true → (length s ≤ 256) × (is_pattern s ≡ true)
unfolding pattern_ok
pattern_ok_lem s e = (leb-true (length s) 256 (and_left (leb (length s) 256) (is_pattern s) e), and_right (leb (length s) 256) (is_pattern s) e)

-- a text that may enter as a resource id is one, of 256 bytes at most
resource_ok_lem : (s : List ℕ) → resource_ok s ≡ true → (length s ≤ 256) × (is_resource s ≡ true)
unfolding resource_ok
resource_ok_lem s e = (
  leb-true (length s) 256 (and_left (leb (length s) 256) (is_resource s) e),
  and_right (leb (length s) 256)
      (is_resource s) e,
)

-- what a line asks
abbrev Question : List ℕ → Type 0
Question line = (p : Pattern) × (x : Path) × Asks line p x

-- two texts that may enter, with a space between them, ask
texts_ask : (line l r : List ℕ) → line ≡ l ++ (32 ∷ r) → pattern_ok l ≡ true → resource_ok r ≡ true → Question line
texts_ask line l r e hl hr =
    let pl = pattern_ok_lem l hl in
    let pr = resource_ok_lem r hr in
    let p = (patterns_exact l).0 pl.1 in
    let x = (resources_exact r).0 pr.1 in (
      p.0,
      x.0,
      record {
        pattern = p.1;
        path = x.1;
        pattern_fits = subst (λ (s : List ℕ). length s ≤ 256) p.2 pl.0;
        path_fits = subst (λ (s : List ℕ). length s ≤ 256) x.2 pr.0;
        spelled = e ∙ ap₂ (λ (s t : List ℕ). s ++ (32 ∷ t)) p.2 x.2;
      },
    )

-- a well-formed text of at most 256 bytes may enter
may_enter : (s : List ℕ) (ok : Bool) → length s ≤ 256 → ok ≡ true → (leb (length s) 256 && ok) ≡ true
may_enter s ok l e = rw (le-leb (length s) 256 l, e)

-- a line with a space is bad or asks
parted_or_bad : (line l r : List ℕ) → line ≡ l ++ (32 ∷ r) → (verdict_of (matching l r) ≡ IsBad) ⊎ Question line
unfolding pattern_ok resource_ok
parted_or_bad line l r e = go (pattern_ok l) (resource_ok r) refl refl
  where
    go : (a b : Bool) → pattern_ok l ≡ a → resource_ok r ≡ b → (verdict_of (matching l r) ≡ IsBad) ⊎ Question line
    go true true ea eb = inr (texts_ask line l r e ea eb)
    go true false ea eb =
        inl (ap verdict_of
        (bad_matching (matching l r) (malformed15 l r (λ h. no_flag (sym eb ∙ may_enter r (is_resource r) h.2 h.3)))))
    go false b ea eb = inl
        (ap verdict_of (bad_matching (matching l r) (malformed15 l r (λ h. no_flag (sym ea ∙ may_enter l (is_pattern l) h.0 h.1)))))

-- each line is bad or asks
bad_or_asks : (line : List ℕ) → (verdict line ≡ IsBad) ⊎ Question line
unfolding verdict verdict_at
bad_or_asks line =
    let n : ℕ = before_space line in
    by_cond (λ (v : Verdict). (v ≡ IsBad) ⊎ Question line) (leb (length line) 600)
    (λ e. by_cond (λ (v : Verdict). (v ≡ IsBad) ⊎ Question line) (leb (length line) n)
    (λ f. inl refl)
    (λ f. parted_or_bad line (take n line) (drop (suc n) line) (parts_at line (leb-false (length line) n f))))
    (λ e. inl refl)

-- ---- the words

-- the first byte of a verdict's line
abbrev first : List ℕ → ℕ
first [] = 0
first (b ∷ bs) = b

-- what is written for a line that asks
asks_word : (line : List ℕ) (p : Pattern) (x : Path) → Asks line p x
    → verdict_line (verdict line) ≡ cond (admits p x) (codes "yes\n") (codes "no\n")
asks_word line p x a = ap verdict_line (asks_verdict line p x a) ∙ go (admits p x)
  where
    go : (b : Bool) → verdict_line (verdict_for b) ≡ cond b (codes "yes\n") (codes "no\n")
    go true = refl
    go false = refl

-- each line is answered bad or asks
word_or_asks : (line : List ℕ) → (verdict_line (verdict line) ≡ codes "bad\n") ⊎ Question line
word_or_asks line = ⊎_elim (λ e. inl (ap verdict_line e)) (λ q. inr q) (bad_or_asks line)

-- what is written for a line says whether its pattern matches its path
word_says : (b c : Bool) → cond b (codes "yes\n") (codes "no\n") ≡ cond c (codes "yes\n") (codes "no\n") → b ≡ c
word_says true true e = refl
word_says true false e = absurd (omega (arith, ap first e))
word_says false true e = absurd (omega (arith, ap first e))
word_says false false e = refl

-- bad is neither of the two
bad_apart : (b : Bool) → codes "bad\n" ≡ cond b (codes "yes\n") (codes "no\n") → ⊥
bad_apart true e = omega (arith, ap first e)
bad_apart false e = omega (arith, ap first e)

-- each of the two is written exactly for the lines with that answer
pub word_exactly : (b : Bool) (line : List ℕ)
    → (verdict_line (verdict line) ≡ cond b (codes "yes\n") (codes "no\n")) ↔ ((p : Pattern) × (x : Path) × Asks line p x × (admits p x ≡ b))
word_exactly b line = (
  λ e. ⊎_elim (λ f. absurd (bad_apart b (sym f ∙ e)))
      (λ q. (q.0, q.1, q.2, word_says (admits q.0 q.1) b (sym (asks_word line q.0 q.1 q.2) ∙ e)))
      (word_or_asks line),
  λ q. asks_word line q.0 q.1 q.2 ∙ ap (λ (c : Bool). cond c (codes "yes\n") (codes "no\n")) q.3,
)

-- bad is written for any other line
pub bad_exactly : BadElse
bad_exactly line = (
  λ e p x a. bad_apart (admits p x) (sym e ∙ asks_word line p x a),
  λ f. ⊎_elim (λ e. e) (λ q. absurd (f q.0 q.1 q.2)) (word_or_asks line),
)
