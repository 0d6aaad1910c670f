-- What is promised of the grant reader, and nothing else. Each statement `NameOfIt` is proved in proofs/Promises.antt as `name_of_it`.
use Rattle.std.specs.Prelude.{◌≡◌, ℕ, ◌<◌, ◌≤◌, List, length, ◌≢◌, slice_index_or}
use Rattle.octets.specs.Bytes.{AreBytes}
use Rattle.descriptor_spec.specs.declared.GrantNumbers.{GrantNumbers}
use Rattle.descriptor_spec.specs.Model.{Grant, Descriptor, encode}
use Rattle.descriptor_spec.specs.Allowed.{Allowed}
use Rattle.descriptor_spec.specs.Reader.{read_of, grant_at}
use Rattle.descriptor_spec.specs.View.{grant_place}
use Rattle.descriptor_spec.specs.Code.{reading_of}
use Rattle.descriptor_spec.specs.Numbers.{numbers_of, grant_numbers}
use Rattle.descriptor_spec.specs.Promises.{GrantHandedBack}
use Rattle.grant_reader.specs.Code.{start_of, place_from, nth_of}

-- the numbers of no grant
abbrev pub no_grant : GrantNumbers
no_grant = record { found = 0; pattern_at = 0; pattern_len = 0; mask = 0; modes_at = 0; constraints_at = 0; constraint_pairs = 0 }

-- of an allowed descriptor the reader stands, after i grants, at the place of the i-th
abbrev pub ReaderPlaces : Type 0
ReaderPlaces = (d : Descriptor) → AreBytes (encode d) → Allowed d → (i : ℕ) → i ≤ length d.payload.grants
    → place_from (encode d) (start_of (encode d)) i ≡ grant_place d i

-- the grant with an index is what the reader gives after as many others
abbrev pub ByIndex : Type 0
ByIndex = (s : List ℕ) (i : ℕ) → nth_of s i ≡ grant_at s (place_from s (start_of s) i)

-- each call is the grant at its place: of an allowed descriptor it hands back the i-th grant, counted from 0
abbrev pub EachInTurn : Type 0
EachInTurn = (d : Descriptor) → AreBytes (encode d) → Allowed d → (i : ℕ) (g : Grant) → i < length d.payload.grants
    → slice_index_or d.payload.grants i g ≡ g
    → GrantHandedBack (encode d) g (grant_numbers (nth_of (encode d) i))

-- past the last grant it gives none
abbrev pub NonePast : Type 0
NonePast = (d : Descriptor) → AreBytes (encode d) → Allowed d → (i : ℕ) → length d.payload.grants ≤ i
    → grant_numbers (nth_of (encode d) i) ≡ no_grant

-- made from bytes that don't read it gives none
abbrev pub NoneUnread : Type 0
NoneUnread = (s : List ℕ) → ((numbers_of (reading_of (read_of s))).answer ≢ 0) → (i : ℕ) → grant_numbers (nth_of s i) ≡ no_grant

-- and where it gives none it goes on giving none, and stays at its place
abbrev pub NoneStays : Type 0
NoneStays = (s : List ℕ) (at : ℕ) → grant_numbers (grant_at s at) ≡ no_grant
    → (n : ℕ) → (place_from s at n ≡ at) × (grant_numbers (grant_at s (place_from s at n)) ≡ no_grant)
