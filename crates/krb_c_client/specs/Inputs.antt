-- What a call is asked of a KDC.
use Rattle.std.specs.Prelude.{ℕ, ℤ, List}
use Rattle.krb_c_client.specs.declared.asked.Question.{Question}
use Rattle.krb_c_client.specs.declared.records.TermsRecord.{TermsRecord}

-- how; the numbers of the options, of the flags that the ticket may have, and of the encryption types; client and server as texts; random octets; what the KDC sent
pub record Inputs : Type 0 where
  pub terms : TermsRecord
  pub options : List ℕ
  pub flags : List ℕ
  pub etypes : List ℤ
  pub client : List ℕ
  pub server : List ℕ
  pub random : List ℕ
  pub message : List ℕ

abbrev pub inputs : TermsRecord → List ℕ → List ℕ → List ℤ → List ℕ → List ℕ → List ℕ → List ℕ → Inputs
inputs terms options flags etypes client server random message = record {
  terms = terms;
  options = options;
  flags = flags;
  etypes = etypes;
  client = client;
  server = server;
  random = random;
  message = message;
}

abbrev pub inputs_of : Question → Inputs
inputs_of q = inputs q.terms q.options.now q.flags.now q.etypes.now q.client.now q.server.now q.random.now q.message.now
