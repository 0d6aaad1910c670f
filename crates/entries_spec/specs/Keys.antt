-- The fixed byte strings of the maps of source 002: published keys, algorithms and mode names, each as it stands in the bytes, with its
-- head. The readers compare them in place. A reader of the promises does not need this page: that each is the text of its name, and that
-- the keys of each map ascend, is promised in specs/Promises.antt of `descriptor_spec`.
use Rattle.std.specs.Prelude.{List, [], ◌∷◌, ℕ}

-- ---- the keys of a descriptor

-- "payload"
unfoldable pub k_payload : List ℕ
k_payload = 103 ∷ 112 ∷ 97 ∷ 121 ∷ 108 ∷ 111 ∷ 97 ∷ 100 ∷ []

-- "version"
unfoldable pub k_version : List ℕ
k_version = 103 ∷ 118 ∷ 101 ∷ 114 ∷ 115 ∷ 105 ∷ 111 ∷ 110 ∷ []

-- "signature"
unfoldable pub k_signature : List ℕ
k_signature = 105 ∷ 115 ∷ 105 ∷ 103 ∷ 110 ∷ 97 ∷ 116 ∷ 117 ∷ 114 ∷ 101 ∷ []

-- ---- the keys of a payload

-- "grants"
unfoldable pub k_grants : List ℕ
k_grants = 102 ∷ 103 ∷ 114 ∷ 97 ∷ 110 ∷ 116 ∷ 115 ∷ []

-- "metadata"
unfoldable pub k_metadata : List ℕ
k_metadata = 104 ∷ 109 ∷ 101 ∷ 116 ∷ 97 ∷ 100 ∷ 97 ∷ 116 ∷ 97 ∷ []

-- "issued_at"
unfoldable pub k_issued_at : List ℕ
k_issued_at = 105 ∷ 105 ∷ 115 ∷ 115 ∷ 117 ∷ 101 ∷ 100 ∷ 95 ∷ 97 ∷ 116 ∷ []

-- "issuer_id"
unfoldable pub k_issuer_id : List ℕ
k_issuer_id = 105 ∷ 105 ∷ 115 ∷ 115 ∷ 117 ∷ 101 ∷ 114 ∷ 95 ∷ 105 ∷ 100 ∷ []

-- "not_after"
unfoldable pub k_not_after : List ℕ
k_not_after = 105 ∷ 110 ∷ 111 ∷ 116 ∷ 95 ∷ 97 ∷ 102 ∷ 116 ∷ 101 ∷ 114 ∷ []

-- "grantor_id"
unfoldable pub k_grantor_id : List ℕ
k_grantor_id = 106 ∷ 103 ∷ 114 ∷ 97 ∷ 110 ∷ 116 ∷ 111 ∷ 114 ∷ 95 ∷ 105 ∷ 100 ∷ []

-- "not_before"
unfoldable pub k_not_before : List ℕ
k_not_before = 106 ∷ 110 ∷ 111 ∷ 116 ∷ 95 ∷ 98 ∷ 101 ∷ 102 ∷ 111 ∷ 114 ∷ 101 ∷ []

-- "terminal_id"
unfoldable pub k_terminal_id : List ℕ
k_terminal_id = 107 ∷ 116 ∷ 101 ∷ 114 ∷ 109 ∷ 105 ∷ 110 ∷ 97 ∷ 108 ∷ 95 ∷ 105 ∷ 100 ∷ []

-- "descriptor_id"
unfoldable pub k_descriptor_id : List ℕ
k_descriptor_id = 109 ∷ 100 ∷ 101 ∷ 115 ∷ 99 ∷ 114 ∷ 105 ∷ 112 ∷ 116 ∷ 111 ∷ 114 ∷ 95 ∷ 105 ∷ 100 ∷ []

-- "subject_fay_id"
unfoldable pub k_subject_fay_id : List ℕ
k_subject_fay_id = 110 ∷ 115 ∷ 117 ∷ 98 ∷ 106 ∷ 101 ∷ 99 ∷ 116 ∷ 95 ∷ 102 ∷ 97 ∷ 121 ∷ 95 ∷ 105 ∷ 100 ∷ []

-- ---- the keys of a signature

-- "key_id"
unfoldable pub k_key_id : List ℕ
k_key_id = 102 ∷ 107 ∷ 101 ∷ 121 ∷ 95 ∷ 105 ∷ 100 ∷ []

-- "algorithm"
unfoldable pub k_algorithm : List ℕ
k_algorithm = 105 ∷ 97 ∷ 108 ∷ 103 ∷ 111 ∷ 114 ∷ 105 ∷ 116 ∷ 104 ∷ 109 ∷ []

-- "signature_value"
unfoldable pub k_signature_value : List ℕ
k_signature_value = 111 ∷ 115 ∷ 105 ∷ 103 ∷ 110 ∷ 97 ∷ 116 ∷ 117 ∷ 114 ∷ 101 ∷ 95 ∷ 118 ∷ 97 ∷ 108 ∷ 117 ∷ 101 ∷ []

-- ---- the keys of a grant

-- "modes"
unfoldable pub k_modes : List ℕ
k_modes = 101 ∷ 109 ∷ 111 ∷ 100 ∷ 101 ∷ 115 ∷ []

-- "constraints"
unfoldable pub k_constraints : List ℕ
k_constraints = 107 ∷ 99 ∷ 111 ∷ 110 ∷ 115 ∷ 116 ∷ 114 ∷ 97 ∷ 105 ∷ 110 ∷ 116 ∷ 115 ∷ []

-- "resource_pattern"
unfoldable pub k_resource_pattern : List ℕ
k_resource_pattern = 112 ∷ 114 ∷ 101 ∷ 115 ∷ 111 ∷ 117 ∷ 114 ∷ 99 ∷ 101 ∷ 95 ∷ 112 ∷ 97 ∷ 116 ∷ 116 ∷ 101 ∷ 114 ∷ 110 ∷ []

-- ---- algorithms

-- "ed25519"
unfoldable pub ed25519 : List ℕ
ed25519 = 103 ∷ 101 ∷ 100 ∷ 50 ∷ 53 ∷ 53 ∷ 49 ∷ 57 ∷ []

-- "ecdsa-p256-sha256"
unfoldable pub ecdsa_p256_sha256 : List ℕ
ecdsa_p256_sha256 = 113 ∷ 101 ∷ 99 ∷ 100 ∷ 115 ∷ 97 ∷ 45 ∷ 112 ∷ 50 ∷ 53 ∷ 54 ∷ 45 ∷ 115 ∷ 104 ∷ 97 ∷ 50 ∷ 53 ∷ 54 ∷ []

-- the algorithms by number: ed25519 is 0, ecdsa-p256-sha256 is 1
unfoldable pub algorithms : List (List ℕ)
algorithms = ed25519 ∷ ecdsa_p256_sha256 ∷ []

-- ---- modes

-- "read"
unfoldable pub m_read : List ℕ
m_read = 100 ∷ 114 ∷ 101 ∷ 97 ∷ 100 ∷ []

-- "write"
unfoldable pub m_write : List ℕ
m_write = 101 ∷ 119 ∷ 114 ∷ 105 ∷ 116 ∷ 101 ∷ []

-- "execute"
unfoldable pub m_execute : List ℕ
m_execute = 103 ∷ 101 ∷ 120 ∷ 101 ∷ 99 ∷ 117 ∷ 116 ∷ 101 ∷ []

-- "configure"
unfoldable pub m_configure : List ℕ
m_configure = 105 ∷ 99 ∷ 111 ∷ 110 ∷ 102 ∷ 105 ∷ 103 ∷ 117 ∷ 114 ∷ 101 ∷ []
