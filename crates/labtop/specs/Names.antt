use Rattle.std.specs.Prelude.{ℕ, List, ◌++◌, codes}

-- docs/RULES.md, "The run".

-- the file of the deliveries
abbrev pub delivery_name : List ℕ → List ℕ
delivery_name out = out ++ codes ".0"

-- the file of the report
abbrev pub report_name : List ℕ → List ℕ
report_name out = out ++ codes ".report"

-- the file of a match
abbrev pub match_name : List ℕ → List ℕ
match_name out = out ++ codes ".match"
