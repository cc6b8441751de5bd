-- The form of what a scrape gets: Prometheus' text format, version 0.0.4, "Text format details".
-- There a label's value may need escapes, for a backslash, a double quote or a line feed. None is
-- written here: each value is a tenant's name, which has only letters, digits, dashes and
-- underscores, a number in digits, or a constant of this project without these bytes.
use Rattle.std.specs.Prelude.{ℕ, List, [], ◌∷◌, ◌++◌, codes, flat_map}

-- a label: its name and its value
abbrev pub LabelText : Type 0
LabelText = List ℕ × List ℕ

-- a label's name, and its value in quotes
abbrev pub label_text : LabelText → List ℕ
label_text label = label.0 ++ (codes "=\"" ++ (label.1 ++ codes "\""))

-- the labels of a sample, if it has any, between braces
abbrev pub labels_text : List LabelText → List ℕ
labels_text [] = []
labels_text (first ∷ others) =
    codes "{" ++ (label_text first
    ++ (flat_map (λ label. codes "," ++ label_text label) others ++ codes "}"))

-- the line of a sample: a name, labels and a value
unfoldable pub sample_line : List ℕ → List LabelText → List ℕ → List ℕ
sample_line name labels value =
    name ++ (labels_text labels ++ (codes " " ++ (value ++ codes "\n")))

-- a line about a metric, after a front that says what it tells
unfoldable pub comment_line : List ℕ → List ℕ → List ℕ → List ℕ
comment_line front name text = front ++ (name ++ (codes " " ++ (text ++ codes "\n")))

-- the lines before a metric's samples: what it tells, and its type
abbrev pub head_lines : List ℕ → List ℕ → List ℕ → List ℕ
head_lines name help type =
    comment_line (codes "# HELP ") name help ++ comment_line (codes "# TYPE ") name type
