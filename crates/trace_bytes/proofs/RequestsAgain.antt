-- What is written of these is read again.
use Rattle.std.proofs.Common.{◌≡◌, ℕ, List, [], ◌∷◌, ◌++◌, drop, refl, lit≤}
use Rattle.std.specs.Prelude.{Result, Ok, Err}
use Rattle.sig_core.specs.declared.request.ApiReq.{ApiReq}
use Rattle.sig_core.specs.declared.request.ApiReq.TheVariants.{Begin, Operate, Commit, Abort, Batch, Kill, Cut, Tick}
use Rattle.sig_core.specs.declared.request.ApiReq.TheVariants.{Gcp, Lcp, Start, Crash, Restart, Rows, Digest, View}
use Rattle.sig_core.specs.declared.request.ApiReq.TheVariants.{Waits, Pending, Micro, Subscribe, Unsubscribe, Backup}
use Rattle.sig_core.specs.declared.request.ApiReq.TheVariants.{Dump, Unique}
use Rattle.trace_bytes.specs.declared.kinds.requests.TheConstants as requests
use Rattle.trace_bytes.specs.Requests.{request_bytes, IsRequest, request_of, request_at, request_of_1, request_of_2}
use Rattle.trace_bytes.specs.Requests.{request_of_3, request_of_4}
use Rattle.trace_bytes.proofs.Again.{Again, again, both, known}
use Rattle.trace_bytes.proofs.LinesAgain.{again_line}
use Rattle.trace_bytes.proofs.ListsAgain.{again_list}
use Rattle.trace_bytes.proofs.OperationsAgain.{again_op}
use Rattle.trace_bytes.proofs.WordsAgain.{again_name, again_opt_u64, again_opt_u8, again_u16, again_u32, again_u8}

request_again : (x : ApiReq) (rest : List ℕ) → IsRequest x → request_at (request_bytes x ++ rest) ≡ Ok (x, rest)
unfolding request_bytes request_at request_of_1 request_of_2 request_of_3 request_of_4
request_again (Begin name node) rest fits =
    known 23 request_of requests.BEGIN (drop 1 (request_bytes (Begin name node)) ++ rest) ((Begin name node), rest)
    (lit≤ tt) (again (λ x. Begin x.0 x.1) (both again_u16 again_opt_u8) (name, node) rest (fits.0, fits.1))
request_again (Operate name op) rest fits =
    known 23 request_of requests.OPERATE (drop 1 (request_bytes (Operate name op)) ++ rest) ((Operate name op), rest)
    (lit≤ tt) (again (λ x. Operate x.0 x.1) (both again_name again_op) (name, op) rest (fits.0, fits.1))
request_again (Commit name) rest fits =
    known 23 request_of requests.COMMIT (drop 1 (request_bytes (Commit name)) ++ rest) ((Commit name), rest) (lit≤ tt)
    (again (λ x. Commit x) again_u16 name rest fits)
request_again (Abort name) rest fits =
    known 23 request_of requests.ABORT (drop 1 (request_bytes (Abort name)) ++ rest) ((Abort name), rest) (lit≤ tt)
    (again (λ x. Abort x) again_u16 name rest fits)
request_again (Batch lines) rest fits =
    known 23 request_of requests.BATCH (drop 1 (request_bytes (Batch lines)) ++ rest) ((Batch lines), rest) (lit≤ tt)
    (again (λ x. Batch x) (again_list again_line) lines rest fits)
request_again (Kill node) rest fits =
    known 23 request_of requests.KILL (drop 1 (request_bytes (Kill node)) ++ rest) ((Kill node), rest) (lit≤ tt)
    (again (λ x. Kill x) again_u8 node rest fits)
request_again (Cut one other) rest fits =
    known 23 request_of requests.CUT (drop 1 (request_bytes (Cut one other)) ++ rest) ((Cut one other), rest) (lit≤ tt)
    (again (λ x. Cut x.0 x.1) (both again_u8 again_u8) (one, other) rest (fits.0, fits.1))
request_again (Tick round rounds) rest fits =
    known 23 request_of requests.TICK (drop 1 (request_bytes (Tick round rounds)) ++ rest) ((Tick round rounds), rest)
    (lit≤ tt) (again (λ x. Tick x.0 x.1) (both again_u8 again_u8) (round, rounds) rest (fits.0, fits.1))
request_again Gcp rest fits =
    known 23 request_of requests.GCP (drop 1 (request_bytes Gcp) ++ rest) (Gcp, rest) (lit≤ tt) refl
request_again Lcp rest fits =
    known 23 request_of requests.LCP (drop 1 (request_bytes Lcp) ++ rest) (Lcp, rest) (lit≤ tt) refl
request_again (Start node own) rest fits =
    known 23 request_of requests.START (drop 1 (request_bytes (Start node own)) ++ rest) ((Start node own), rest)
    (lit≤ tt) (again (λ x. Start x.0 x.1) (both again_u8 again_opt_u64) (node, own) rest (fits.0, fits.1))
request_again Crash rest fits =
    known 23 request_of requests.CRASH (drop 1 (request_bytes Crash) ++ rest) (Crash, rest) (lit≤ tt) refl
request_again Restart rest fits =
    known 23 request_of requests.RESTART (drop 1 (request_bytes Restart) ++ rest) (Restart, rest) (lit≤ tt) refl
request_again (Rows node) rest fits =
    known 23 request_of requests.ROWS (drop 1 (request_bytes (Rows node)) ++ rest) ((Rows node), rest) (lit≤ tt)
    (again (λ x. Rows x) again_u8 node rest fits)
request_again (Digest node) rest fits =
    known 23 request_of requests.DIGEST (drop 1 (request_bytes (Digest node)) ++ rest) ((Digest node), rest) (lit≤ tt)
    (again (λ x. Digest x) again_u8 node rest fits)
request_again View rest fits =
    known 23 request_of requests.VIEW (drop 1 (request_bytes View) ++ rest) (View, rest) (lit≤ tt) refl
request_again Waits rest fits =
    known 23 request_of requests.WAITS (drop 1 (request_bytes Waits) ++ rest) (Waits, rest) (lit≤ tt) refl
request_again Pending rest fits =
    known 23 request_of requests.PENDING (drop 1 (request_bytes Pending) ++ rest) (Pending, rest) (lit≤ tt) refl
request_again Micro rest fits =
    known 23 request_of requests.MICRO (drop 1 (request_bytes Micro) ++ rest) (Micro, rest) (lit≤ tt) refl
request_again (Subscribe subscriber) rest fits =
    known 23 request_of requests.SUBSCRIBE (drop 1 (request_bytes (Subscribe subscriber)) ++ rest)
    ((Subscribe subscriber), rest) (lit≤ tt) (again (λ x. Subscribe x) again_u16 subscriber rest fits)
request_again (Unsubscribe subscriber) rest fits =
    known 23 request_of requests.UNSUBSCRIBE (drop 1 (request_bytes (Unsubscribe subscriber)) ++ rest)
    ((Unsubscribe subscriber), rest) (lit≤ tt) (again (λ x. Unsubscribe x) again_u16 subscriber rest fits)
request_again (Backup backup) rest fits =
    known 23 request_of requests.BACKUP (drop 1 (request_bytes (Backup backup)) ++ rest) ((Backup backup), rest)
    (lit≤ tt) (again (λ x. Backup x) again_u32 backup rest fits)
request_again (Dump backup) rest fits =
    known 23 request_of requests.DUMP (drop 1 (request_bytes (Dump backup)) ++ rest) ((Dump backup), rest) (lit≤ tt)
    (again (λ x. Dump x) again_u32 backup rest fits)
request_again (Unique name op) rest fits =
    known 23 request_of requests.UNIQUE (drop 1 (request_bytes (Unique name op)) ++ rest) ((Unique name op), rest)
    (lit≤ tt) (again (λ x. Unique x.0 x.1) (both again_name again_op) (name, op) rest (fits.0, fits.1))

pub again_request : Again IsRequest request_bytes request_at
again_request = record { reads = request_again }
