-- Which octets an input stands for.
use Rattle.std.specs.Prelude.{ℕ, if◌then◌else◌, Option, Some, None, List, codes, option_and_then, unwrap_or}
use Rattle.std.specs.Result.{result_ok}
use Rattle.base64.specs.declared.engine.general_purpose.GeneralPurpose.{GeneralPurpose}
use Rattle.base64.specs.Engines.{standard, standard_no_pad, url_safe, url_safe_no_pad}
use Rattle.base64.specs.GeneralPurpose.{decode_of as base64_decode_of}
use Rattle.hex.specs.Hex.{decode_of as hex_decode_of}
use Rattle.krb_input.specs.Blanks.{skip_blanks, without_blanks}
use Rattle.krb_input.specs.Words.{after_text}
use Rattle.krb_input.specs.Marks.{unmarked}
use Rattle.krb_input.specs.Dump.{dump_digits, is_dump}
use Rattle.krb_input.specs.Pem.{between_lines}
use Rattle.krb_input.specs.Headers.{either, behind_scheme}

-- what these digits stand for, in pairs and in either case
abbrev pub hexadecimal : List ℕ → Option (List ℕ)
hexadecimal text = result_ok (hex_decode_of text)

-- what this text stands for in one kind of base64
abbrev pub base64_by : GeneralPurpose → List ℕ → Option (List ℕ)
base64_by engine text = result_ok (base64_decode_of engine text)

-- what this text stands for in base64 (RFC 4648, 4), or in that of URLs and file names (5), with its padding or without
abbrev pub base64 : List ℕ → Option (List ℕ)
base64 text = either (base64_by standard text) (either (base64_by standard_no_pad text) (either (base64_by url_safe text) (base64_by url_safe_no_pad text)))

-- what the digits of a dump stand for, where the input begins as one
abbrev pub of_dump : List ℕ → Option (List ℕ)
of_dump input = if is_dump (skip_blanks input) then hexadecimal (dump_digits (skip_blanks input)) else None

-- what a text without blanks stands for: digits, with marks or without, else base64
abbrev pub of_words : List ℕ → Option (List ℕ)
of_words text = either (hexadecimal text) (either (hexadecimal (unmarked text)) (base64 text))

-- what an input stands for: a dump, else a text, else it is the octets themselves
abbrev pub of_text : List ℕ → List ℕ
of_text input = unwrap_or (either (of_dump input) (of_words (without_blanks input))) input

-- what follows a scheme of HTTP, if one is there
abbrev pub of_scheme : Option (List ℕ) → List ℕ → Option (List ℕ)
of_scheme None input = Some (of_text input)
of_scheme (Some token) input = base64 (without_blanks token)

-- what follows the start of a line of PEM, if one is there
abbrev pub of_pem : Option (List ℕ) → List ℕ → Option (List ℕ)
of_pem None input = of_scheme (behind_scheme (skip_blanks input)) input
of_pem (Some label) input = option_and_then (λ body. base64 (without_blanks body)) (between_lines label)

-- The octets that an input stands for; none where it begins as PEM or with a scheme, and what follows is no base64.
abbrev pub octets_of : List ℕ → Option (List ℕ)
octets_of input = of_pem (after_text (codes "-----BEGIN ") (skip_blanks input)) input
