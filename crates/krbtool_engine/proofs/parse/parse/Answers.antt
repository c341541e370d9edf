use Rattle.std.proofs.Common.{rules, ◌≡◌, codes}
use Rattle.std.specs.String.{string_bytes}
use Rattle.krbtool_engine.proofs.Parsing.{texts_1, texts_4, texts_5}
use Rattle.krbtool_engine.proofs.parse.parse.Goals as goal

pub returns-then-eq-clause-found : goal.returns-then-eq-clause-found
returns-then-eq-clause-found c =
    let argument : string_bytes c.index-arguments-0.result ≡ codes "check" = search rules in
    let texts = texts_1 string_bytes c.args.arguments.now c.index-arguments-0.result c.in-1.is c.index-arguments-0.is in
    rw texts argument

pub returns-then-eq-2-clause-found : goal.returns-then-eq-2-clause-found
returns-then-eq-2-clause-found c =
    let argument : string_bytes c.index-arguments-0-in-4.result ≡ codes "open" = search rules in
    let texts = texts_4 string_bytes c.args.arguments.now c.index-arguments-0-in-4.result c.index-arguments-1.result c.index-arguments-2.result c.index-arguments-3.result c.in-4.is
    c.index-arguments-0-in-4.is c.index-arguments-1.is c.index-arguments-2.is c.index-arguments-3.is in
    rw (texts, argument, ← c.as_str-then-eq-2.ensures.value, ← c.as_str-then-eq-2-2.ensures.value, ← c.as_str-then-eq-2-3.ensures.value) c.parse_open.ensures.found

pub returns-then-eq-2-clause-rejected : goal.returns-then-eq-2-clause-rejected
returns-then-eq-2-clause-rejected c =
    let argument : string_bytes c.index-arguments-0-in-4.result ≡ codes "open" = search rules in
    let texts = texts_4 string_bytes c.args.arguments.now c.index-arguments-0-in-4.result c.index-arguments-1.result c.index-arguments-2.result c.index-arguments-3.result c.in-4.is
    c.index-arguments-0-in-4.is c.index-arguments-1.is c.index-arguments-2.is c.index-arguments-3.is in
    rw (texts, argument, ← c.as_str-then-eq-2.ensures.value, ← c.as_str-then-eq-2-2.ensures.value, ← c.as_str-then-eq-2-3.ensures.value) c.parse_open.ensures.rejected

pub returns-then-eq-3-clause-found : goal.returns-then-eq-3-clause-found
returns-then-eq-3-clause-found c =
    let argument : string_bytes c.index-arguments-0-in-5.result ≡ codes "seal" = search rules in
    let texts = texts_5 string_bytes c.args.arguments.now c.index-arguments-0-in-5.result c.index-arguments-1-then-eq-3.result c.index-arguments-2-then-eq-3.result c.index-arguments-3-then-eq-3.result
    c.index-arguments-4.result c.in-5.is c.index-arguments-0-in-5.is c.index-arguments-1-then-eq-3.is c.index-arguments-2-then-eq-3.is c.index-arguments-3-then-eq-3.is c.index-arguments-4.is in
    rw (texts, argument, ← c.as_str-then-eq-3.ensures.value, ← c.as_str-then-eq-3-2.ensures.value, ← c.as_str-then-eq-3-3.ensures.value, ← c.as_str-then-eq-3-4.ensures.value) c.parse_seal.ensures.found

pub returns-then-eq-3-clause-rejected : goal.returns-then-eq-3-clause-rejected
returns-then-eq-3-clause-rejected c =
    let argument : string_bytes c.index-arguments-0-in-5.result ≡ codes "seal" = search rules in
    let texts = texts_5 string_bytes c.args.arguments.now c.index-arguments-0-in-5.result c.index-arguments-1-then-eq-3.result c.index-arguments-2-then-eq-3.result c.index-arguments-3-then-eq-3.result
    c.index-arguments-4.result c.in-5.is c.index-arguments-0-in-5.is c.index-arguments-1-then-eq-3.is c.index-arguments-2-then-eq-3.is c.index-arguments-3-then-eq-3.is c.index-arguments-4.is in
    rw (texts, argument, ← c.as_str-then-eq-3.ensures.value, ← c.as_str-then-eq-3-2.ensures.value, ← c.as_str-then-eq-3-3.ensures.value, ← c.as_str-then-eq-3-4.ensures.value) c.parse_seal.ensures.rejected
