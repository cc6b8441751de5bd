-- What a request is answered: a status, fields and a body, which its method, its path and the
-- numbers alone determine. After RFC 9110, "Method definitions" and "Status codes". The connection
-- adds the length of the body, and leaves the body out for `HEAD`.
use Rattle.std.specs.Prelude.{ℕ, Bool, ◌||◌, List, [], ◌∷◌, codes, if◌then◌else◌}
use Rattle.std.specs.Str.{bytes_eq}
use Rattle.http1.specs.Fields.{Header}
use Rattle.http_server.specs.Response.{IsResponse}
use Rattle.http_server.specs.declared.response.Response.{Response}
use Rattle.mc_metrics.specs.Metrics.{metrics_text}
use Rattle.mc_metrics.specs.Page.{page_text}
use Rattle.mc_metrics.specs.declared.snapshot.Snapshot.{Snapshot}

pub record Answer : Type 0 where
  pub status : ℕ
  pub fields : List Header
  pub body : List ℕ

-- the response is the answer
abbrev pub GivesAnswer : Answer → Response → Type 0
GivesAnswer answer = IsResponse answer.status answer.fields answer.body

-- a text of this type
abbrev pub text_answer : List ℕ → List ℕ → Answer
text_answer type text =
    record { status = 200; fields = (codes "content-type", type) ∷ []; body = text }

-- to a scrape, in the type of Prometheus' text format
abbrev pub metrics_answer : Snapshot → Answer
metrics_answer snapshot =
    text_answer (codes "text/plain; version=0.0.4; charset=utf-8") (metrics_text snapshot)

-- to people
abbrev pub page_answer : Snapshot → Answer
page_answer snapshot = text_answer (codes "text/html; charset=utf-8") (page_text snapshot)

-- for another path
abbrev pub not_found : Answer
not_found = record { status = 404; fields = []; body = [] }

-- to a method that would change something, or that isn't known
abbrev pub not_allowed : Answer
not_allowed = record { status = 405; fields = (codes "allow", codes "GET, HEAD") ∷ []; body = [] }

-- the method only retrieves
abbrev pub is_retrieval : List ℕ → Bool
is_retrieval method = bytes_eq method (codes "GET") || bytes_eq method (codes "HEAD")

-- what is answered to a request of this method for this path
abbrev pub http_answer_to : Snapshot → List ℕ → List ℕ → Answer
http_answer_to snapshot method path =
    if is_retrieval method
    then (if bytes_eq path (codes "/metrics") then metrics_answer snapshot
    else (if bytes_eq path (codes "/") then page_answer snapshot else not_found))
    else not_allowed
