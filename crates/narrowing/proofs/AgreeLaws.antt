-- The search through the bytes of two descriptors (specs/Code.antt) agrees with the search through their rules (specs/Escape.antt of
-- `narrowing_spec`). Assumes nothing.
use mathlib.Core.Path.{◌≡◌, refl, sym, ap, ap₂, ◌∙◌}
use mathlib.Core.Bool.{Bool, true, false, not, cond}
use mathlib.Core.List.{List}
use Prim.Native.Nat.{ℕ, zero, suc, ◌+◌, ◌-◌, ◌≤◌, ◌<◌}
use native.Mathlib.Numerals.{add-one}
use native.Mathlib.Nat.{add-zero, zero-add}
use native.Mathlib.Omega.{arith}
use lib.ListN.{get_or}
use Rattle.resource_spec.specs.Identifier.{terminal_size}
use Rattle.octets.specs.Bytes as cbor
use Rattle.octets.specs.Bytes.{AreBytes, part, same}
use Rattle.exact.specs.Reads.{got}
use Rattle.resource_spec.specs.Level.{levels}
use Rattle.resource_spec.specs.Pattern.{Pattern, ends_deep}
use Rattle.resource_spec.specs.Text.{levels_of}
use Rattle.octets.proofs.SameLaws.{same_equal}
use Rattle.descriptor_spec.specs.Model.{Grant}
use Rattle.descriptor_spec.specs.Reader.{has_mode, GrantSeen, grant_at, Seen, read, read_of}
use Rattle.descriptor_spec.specs.Laws.{SeenAs, InTurn, no_more, one_more}
use Rattle.narrowing_spec.specs.declared.NarrowingError.TheVariants.{NotCovered}
use Rattle.std.proofs.Common.{Option, Some, None, Err, is_some}
use Rattle.narrowing.specs.declared.search.Escape.{Escape}
use Rattle.narrowing_spec.specs.Escape.{Rule, covered, can_take, escapes_with, deepest, least, or_zero, fewest_names}
use Rattle.narrowing_spec.specs.Escape.{lowest_mode, rule_at, first_rule}
use Rattle.narrowing.specs.Range.{most}
use Rattle.narrowing.specs.Code.{below, marked_at, lacks_at, at_mode, found_at, lowest_from, lowest_in, zeros, escape_in, or_next, first_in}
use Rattle.narrowing_spec.specs.Narrow.{rules_in, answer_at}
use Rattle.narrowing_spec.specs.Laws.{rule_for, rules_of}
use Rattle.narrowing_spec.proofs.Laws.{rules_in_turn, least_fails, least_same, names_settle}
use Rattle.narrowing.proofs.TurnLaws.{turn_count, read_turn}
use Rattle.narrowing.proofs.MarkedLaws.{pattern_with, pattern_seen, turn_few, zeros_lack, marked_covered, other_covered}

-- ---- searches

-- where nothing changes from c on, a search that has c finds the same as a longer one
least_longer : (f : ℕ → Bool) (c : ℕ) → ((j : ℕ) → c ≤ j → f j ≡ f c) → (a n e : ℕ) → c ≤ a + n
    → least f a (suc n) ≡ least f a (suc (n + e))
least_longer f c s a zero e h = go (f a) refl
  where
    go : (b : Bool) → f a ≡ b → cond b (Some a) None ≡ cond b (Some a) (least f (suc a) (0 + e))
    go true q = refl
    go false q = sym (least_fails f (suc a) (0 + e) (λ j l g. s j (omega arith) ∙ sym (s a (omega arith)) ∙ q))
least_longer f c s a (suc n) e h =
    let i : suc (n + e) ≡ suc n + e = omega arith in
    ap (cond (f a) (Some a)) (least_longer f c s (suc a) n e (omega arith) ∙ ap (least f (suc a)) i)

-- a search from 0 on, where 0 fails and nothing changes after n + 1, finds what one from 1 on does
deep_search : (f g : ℕ → Bool) (n t : ℕ) → f 0 ≡ false → ((j : ℕ) → n < j → f j ≡ f (suc n)) → n < t
    → ((j : ℕ) → j < t → f (suc j) ≡ g (suc j)) → least f 0 (2 + n) ≡ least g 1 t
deep_search f g n t z s l h =
    let two : 2 + n ≡ suc (suc n) = omega arith in
    let size : suc (n + (t - suc n)) ≡ t = omega arith in
    ap (least f 0) two ∙ ap (λ (b : Bool). cond b (Some 0) (least f 1 (suc n))) z
    ∙ least_longer f (suc n) (λ j i. s j i) 1 n (t - suc n) (omega arith) ∙ ap (least f 1) size ∙ least_same f g 1 t later
  where
    later : (j : ℕ) → 1 ≤ j → j < 1 + t → f j ≡ g j
    later zero i k = absurd (omega arith)
    later (suc j) i k = h j (omega arith)

-- a search from 0 on, where all but 0 fail, finds what one of 0 does
flat_search : (f g : ℕ → Bool) (n : ℕ) → f 0 ≡ g 0 → ((j : ℕ) → f (suc j) ≡ false) → least f 0 (2 + n) ≡ least g 0 1
flat_search f g n z s =
    let two : 2 + n ≡ suc (suc n) = omega arith in
    ap (least f 0) two ∙ ap₂ (λ (b : Bool) (o : Option ℕ). cond b (Some 0) o) z (least_fails f 1 (suc n) later)
  where
    later : (j : ℕ) → 1 ≤ j → j < 1 + suc n → f j ≡ false
    later zero i l = absurd (omega arith)
    later (suc j) i l = s j

-- ---- one rule and one mode

-- the masks tell for each number of names in which modes the rules cover the pattern
abbrev MasksSay : List Rule → Pattern → List ℕ → Type 0
MasksSay qs p d = (m k : ℕ) → can_take p.below k ≡ true → k < most → has_mode (get_or d k 0) m ≡ covered qs m p k

-- the fewest names of a pattern with "**" are found from 1 on
fewest_deep : (qs : List Rule) (g : Rule) (d : List ℕ) (m : ℕ) → MasksSay qs g.pattern d → deepest qs ≤ 105
    → ends_deep g.pattern.below ≡ true
    → has_mode g.mask m ≡ true → fewest_names qs g m ≡ least (lacks_at d m) 1 (most - 1)
unfolding fewest_names
fewest_deep qs g d m t few e o =
    deep_search (escapes_with qs g m) (lacks_at d m) (deepest qs) 127 (rw (e, o)) (names_settle qs g m) (omega arith)
    (λ j l. rw (e, o) (ap not (sym (t m (suc j) e (omega arith)))))

-- of a pattern without "**" there is only 0
fewest_flat : (qs : List Rule) (g : Rule) (d : List ℕ) (m : ℕ) → MasksSay qs g.pattern d → ends_deep g.pattern.below ≡ false
    → has_mode g.mask m ≡ true → fewest_names qs g m ≡ least (lacks_at d m) 0 1
unfolding fewest_names
fewest_flat qs g d m t e o =
    flat_search (escapes_with qs g m) (lacks_at d m) (deepest qs) (rw (e, o) (ap not (sym (t m 0 (ap not e) (omega arith)))))
    (λ j. rw (e, o))

-- in a mode that the rule does not have no path escapes by it
fewest_off : (qs : List Rule) (g : Rule) (m : ℕ) → has_mode g.mask m ≡ false → fewest_names qs g m ≡ None
unfolding fewest_names
fewest_off qs g m o = least_fails (escapes_with qs g m) 0 (2 + deepest qs) (λ j l g. rw o)

-- ---- the modes of a rule

-- what is found of a rule: the lowest mode with its fewest names
abbrev found_of : List Rule → Rule → Option ℕ → Option Escape
found_of qs g None = None
found_of qs g (Some m) = Some (at_mode m (or_zero (fewest_names qs g m)))

-- the search of numbers of names answers the fewest in each mode
abbrev Fewest : List Rule → Rule → List ℕ → ℕ → ℕ → Type 0
Fewest qs g d from to = (m : ℕ) → has_mode g.mask m ≡ true → fewest_names qs g m ≡ least (lacks_at d m) from (to - from)

-- a mode that the mask has not is passed over
lowest_step : (qs : List Rule) (g : Rule) (d : List ℕ) (from to m n : ℕ) → Fewest qs g d from to
    → lowest_from d g.mask from to m (suc n) ≡ found_at m (fewest_names qs g m) (lowest_from d g.mask from to (suc m) n)
unfolding lowest_from
lowest_step qs g d from to m n h = go (has_mode g.mask m) refl
  where
    go : (b : Bool) → has_mode g.mask m ≡ b
        → lowest_from d g.mask from to m (suc n) ≡ found_at m (fewest_names qs g m) (lowest_from d g.mask from to (suc m) n)
    go true e = rw (lowest_from, e, h m e, add-one)
    go false e = rw (lowest_from, e, fewest_off qs g m e, add-one)

-- a mode in which a path escapes comes before the next modes
found_step : (qs : List Rule) (g : Rule) (m : ℕ) (rest : Option ℕ)
    → found_at m (fewest_names qs g m) (found_of qs g rest) ≡ found_of qs g (cond (is_some (fewest_names qs g m)) (Some m) rest)
found_step qs g m rest = go (fewest_names qs g m) refl
  where
    go : (o : Option ℕ) → fewest_names qs g m ≡ o → found_at m o (found_of qs g rest) ≡ found_of qs g (cond (is_some o) (Some m) rest)
    go None e = refl
    go (Some k) e = ap (λ (o : Option ℕ). Some (at_mode m (or_zero o))) (sym e)

-- the search of modes answers the lowest with its fewest names
lowest_found : (qs : List Rule) (g : Rule) (d : List ℕ) (from to m n : ℕ) → Fewest qs g d from to
    → lowest_from d g.mask from to m n ≡ found_of qs g (least (λ i. is_some (fewest_names qs g i)) m n)
unfolding lowest_from
lowest_found qs g d from to m zero h = refl
lowest_found qs g d from to m (suc n) h =
    lowest_step qs g d from to m n h ∙ ap (found_at m (fewest_names qs g m)) (lowest_found qs g d from to (suc m) n h)
    ∙ found_step qs g m (least (λ i. is_some (fewest_names qs g i)) (suc m) n)

-- ---- one rule of the child

-- the rule of a mask, a terminal id and a text of levels
abbrev rule_with : ℕ → List ℕ → List ℕ → Rule
rule_with mask u p = record { mask = mask; pattern = pattern_with u p }

-- where the terminal ids are the same, the masks marked tell; where they are not, the zeros do
masks_say : (s t u p : List ℕ) {n at : ℕ} {gs : List Grant} → InTurn s t n at gs → (shared : Bool) → same t u ≡ shared
    → MasksSay (rules_of gs) (pattern_with u p) (cond shared (marked_at s p zeros n at) zeros)
masks_say s t u p {gs = gs} st true e m k c h =
    marked_covered s t p st m k c h ∙ ap (λ (x : List ℕ). covered (rules_of gs) m (pattern_with x p) k) (same_equal t u e)
masks_say s t u p st false e m k c h = zeros_lack m k ∙ sym (other_covered s t u p st e m k)

-- masks that tell give the lowest mode with its fewest names
masks_found : (qs : List Rule) (g : Rule) (d : List ℕ) → MasksSay qs g.pattern d → deepest qs ≤ 105 → (b : Bool)
    → ends_deep g.pattern.below ≡ b
    → cond b (lowest_from d g.mask 1 most 0 4) (lowest_from d g.mask 0 1 0 4) ≡ found_of qs g (lowest_mode qs g)
unfolding lowest_mode
masks_found qs g d t few true e = lowest_found qs g d 1 most 0 4 (λ m o. fewest_deep qs g d m t few e o)
masks_found qs g d t few false e = lowest_found qs g d 0 1 0 4 (λ m o. fewest_flat qs g d m t e o)

-- the escape found in the bytes is that of the rule
escape_found : (s t u p : List ℕ) (mask : ℕ) {n at : ℕ} {gs : List Grant} → InTurn s t n at gs
    → escape_in s at n (same t u) p mask ≡ found_of (rules_of gs) (rule_with mask u p) (lowest_mode (rules_of gs) (rule_with mask u p))
unfolding escape_in lowest_in
escape_found s t u p mask {n = n} {at = at} {gs = gs} st =
    masks_found (rules_of gs) (rule_with mask u p) (cond (same t u) (marked_at s p zeros n at) zeros) (masks_say s t u p st (same t u) refl)
    (turn_few s t st)
    (ends_deep (levels_of (levels p))) refl

-- ---- the rules of the child

-- one grant of the child that is read
first_step : (s : List ℕ) (at count : ℕ) (shared : Bool) (t : List ℕ) (i n from next : ℕ) (g : GrantSeen) → grant_at t from ≡ got g next
    → first_in s at count shared t i (suc n) from
    ≡ or_next i (escape_in s at count shared (below t g.pattern) g.mask) (first_in s at count shared t (suc i) n next)
unfolding first_in
first_step s at count shared t i n from next g e = rw (first_in, e, add-one)

-- an escape by a rule comes before those by the next rules
answer_step : (qs cs : List Rule) (i : ℕ) (rest : Option ℕ)
    → or_next i (found_of qs (rule_at cs i) (lowest_mode qs (rule_at cs i))) (answer_at qs cs rest)
    ≡ answer_at qs cs (cond (is_some (lowest_mode qs (rule_at cs i))) (Some i) rest)
answer_step qs cs i rest = go (lowest_mode qs (rule_at cs i)) refl
  where
    go : (o : Option ℕ) → lowest_mode qs (rule_at cs i) ≡ o
        → or_next i (found_of qs (rule_at cs i) o) (answer_at qs cs rest) ≡ answer_at qs cs (cond (is_some o) (Some i) rest)
    go None e = refl
    go (Some m) e = ap (λ (o : Option ℕ). Err (NotCovered i (or_zero o) (or_zero (fewest_names qs (rule_at cs i) (or_zero o))))) (sym e)

-- the rule of the mask that is seen of a grant, the child's terminal id and the levels that are seen is the grant's
rule_seen : {s u : List ℕ} {g : Grant} {v : GrantSeen} → SeenAs s u g v → rule_with v.mask u (below s v.pattern) ≡ rule_for g
rule_seen f = ap₂ (λ (m : ℕ) (p : Pattern). record { mask = m; pattern = p }) f.mask (sym (pattern_seen f))

-- the search through the child's bytes from the i-th grant on answers what the search through its rules from the i-th on does
first_from : (s t : List ℕ) {count at : ℕ} {ps : List Grant} → InTurn s t count at ps
    → (c u : List ℕ) (cs : List Rule) {n from : ℕ} {gs : List Grant}
    → InTurn c u n from gs → (i : ℕ) → ((j : ℕ) → rule_at cs (i + j) ≡ rule_at (rules_of gs) j)
    → first_in s at count (same t u) c i n from ≡ answer_at (rules_of ps) cs (least (λ j. is_some (lowest_mode (rules_of ps) (rule_at cs j))) i n)
unfolding first_in
first_from s t st c u cs (no_more from) i h = refl
first_from s t {count = count} {at = at} {ps = ps} st c u cs (one_more n from next v g gs e f r) i h =
    let qs : List Rule = rules_of ps in
    let here : rule_with v.mask u (below c v.pattern) ≡ rule_at cs i = rule_seen f ∙ sym (h 0) ∙ ap (rule_at cs) (add-zero i) in
    let later : (j : ℕ) → rule_at cs (suc i + j) ≡ rule_at (rules_of gs) j = λ j. let k : suc i + j ≡ i + suc j =
    omega arith in ap (rule_at cs) k ∙ h (suc j) in
    first_step s at count (same t u) c i n from next v e
    ∙ ap₂ (or_next i)
    (escape_found s t u (below c v.pattern) v.mask st ∙ ap (λ (x : Rule). found_of qs x (lowest_mode qs x)) here)
    (first_from s t st c u cs r (suc i) later)
    ∙ answer_step qs cs i (least (λ j. is_some (lowest_mode qs (rule_at cs j))) (suc i) n)

-- the search through the bytes of the child's grants answers the first rule by which a path escapes, its lowest mode and its fewest names
first_found : (s t : List ℕ) {count at : ℕ} {ps : List Grant} → InTurn s t count at ps → (c u : List ℕ) {n from : ℕ} {gs : List Grant}
    → InTurn c u n from gs
    → first_in s at count (same t u) c 0 n from ≡ answer_at (rules_of ps) (rules_of gs) (first_rule (rules_of ps) (rules_of gs))
unfolding first_rule
first_found s t {ps = ps} st c u {gs = gs} r =
    let qs : List Rule = rules_of ps in
    let cs : List Rule = rules_of gs in
    first_from s t st c u cs r 0 (λ j. ap (rule_at cs) (zero-add j))
    ∙ ap (λ (n : ℕ). answer_at qs cs (least (λ j. is_some (lowest_mode qs (rule_at cs j))) 0 n)) (sym (turn_count r))

-- ---- two descriptors

-- the search through the bytes of two descriptors that were read answers what the search through their rules does
pub scan_agrees : (s t : List ℕ) (v w : Seen) → AreBytes s → AreBytes t → read_of s ≡ read v → read_of t ≡ read w
    → first_in s v.payload.grants.start v.payload.grants.count
    (cbor.same (part s v.payload.terminal terminal_size) (part t w.payload.terminal terminal_size)) t 0
    w.payload.grants.count
    w.payload.grants.start
    ≡ answer_at (rules_in s v) (rules_in t w) (first_rule (rules_in s v) (rules_in t w))
scan_agrees s t v w bs bt e f =
    let a = (read_turn s v bs e).1 in
    let b = (read_turn t w bt f).1 in
    first_found s _ a t _ b
    ∙ sym (ap₂ (λ (qs cs : List Rule). answer_at qs cs (first_rule qs cs)) (rules_in_turn _ _ _ _ _ a) (rules_in_turn _ _ _ _ _ b))
