-- The octets of MIC and Wrap tokens (RFC 4121, 4.2.6).
use Rattle.std.specs.Prelude.{ℕ, List, [], ◌∷◌, ◌++◌}
use Rattle.std.specs.Int.{w16, w64, to_be_bytes}

-- octets 0 and 1 of a MIC token: TOK_ID, 04 04 (RFC 4121, 4.2.6.1)
abbrev pub mic_id : List ℕ
mic_id = 4 ∷ 4 ∷ []

-- octets 3 to 7 of a MIC token: five of ff (RFC 4121, 4.2.6.1)
abbrev pub mic_filler : List ℕ
mic_filler = 255 ∷ 255 ∷ 255 ∷ 255 ∷ 255 ∷ []

-- octets 0 to 15 of a MIC token: TOK_ID, flags, filler, and the sequence number in big-endian order (RFC 4121, 4.2.6.1)
abbrev pub mic_header : ℕ → ℕ → List ℕ
mic_header flags number = mic_id ++ (flags ∷ []) ++ mic_filler ++ to_be_bytes w64 number

-- octets 0 and 1 of a Wrap token: TOK_ID, 05 04 (RFC 4121, 4.2.6.2)
abbrev pub wrap_id : List ℕ
wrap_id = 5 ∷ 4 ∷ []

-- octets 0 to 15 of a Wrap token: TOK_ID, flags, filler ff, and in big-endian order the extra count, the right rotation count
-- and the sequence number (RFC 4121, 4.2.6.2)
abbrev pub wrap_header : ℕ → ℕ → ℕ → ℕ → List ℕ
wrap_header flags ec rrc number = wrap_id ++ (flags ∷ 255 ∷ []) ++ to_be_bytes w16 ec ++ to_be_bytes w16 rrc ++ to_be_bytes w64 number
