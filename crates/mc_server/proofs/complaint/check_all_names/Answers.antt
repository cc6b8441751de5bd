use Rattle.std.proofs.Common.{◌++◌, Bor, List, refl, subst, sym}
use Rattle.std.specs.List.{IsDistinct}
use Rattle.std.specs.Str.{bytes_eq}
use Rattle.clap.specs.Walk.{Text}
use Rattle.mc_server.specs.Complaints.{StandsTwice}
use Rattle.mc_server.specs.NetworkWords.{admin_name, given_in, metrics_name, reserved_names}
use Rattle.mc_server.proofs.NameParts.{IsFound, admin_twice, metrics_twice, names_given_are, none_twice, parts_of_words, twice_given}
use Rattle.mc_server.proofs.complaint.check_all_names.Goals as goal

pub returns-then-is_name_taken : goal.returns-then-is_name_taken
returns-then-is_name_taken c =
    let given = given_in c.args.words.now in
    let words = c.args.words.now.tenants.items in
    let found = subst (λ (list : List (Bor Text)). IsFound c.args.words.now.admin admin_name list c.is_name_taken.result) c.deref.ensures.value c.is_name_taken.ensures in
    subst (λ (parts : List Text). StandsTwice (reserved_names given.admin given.metrics ++ parts) admin_name) (sym (names_given_are given words refl))
    (admin_twice c.args.words.now.admin given.admin given.metrics words c.is_name_taken.result refl found c.if-is_name_taken.true)

pub returns-then-is_name_taken-2 : goal.returns-then-is_name_taken-2
returns-then-is_name_taken-2 c =
    let given = given_in c.args.words.now in
    let words = c.args.words.now.tenants.items in
    let found = subst (λ (list : List (Bor Text)). IsFound c.args.words.now.metrics metrics_name list c.is_name_taken-2.result) c.deref-2.ensures.value c.is_name_taken-2.ensures in
    subst (λ (parts : List Text). StandsTwice (reserved_names given.admin given.metrics ++ parts) metrics_name) (sym (names_given_are given words refl))
    (metrics_twice c.args.words.now.metrics given.admin given.metrics words c.is_name_taken-2.result refl found c.if-is_name_taken-2.true)

pub returns-in-Ok : goal.returns-in-Ok
returns-in-Ok c =
    let given = given_in c.args.words.now in
    let words = c.args.words.now.tenants.items in
    let found = subst (λ (list : List (Bor Text)). IsFound c.args.words.now.admin admin_name list c.is_name_taken.result) c.deref.ensures.value c.is_name_taken.ensures in
    let shown = subst (λ (list : List (Bor Text)). IsFound c.args.words.now.metrics metrics_name list c.is_name_taken-2.result) c.deref-2.ensures.value c.is_name_taken-2.ensures in
    let distinct = subst (λ (list : List (Bor Text)). IsDistinct bytes_eq (parts_of_words list)) c.deref-3.ensures.value c.in-Ok.ensures in
    subst (λ (parts : List Text). IsDistinct bytes_eq (reserved_names given.admin given.metrics ++ parts)) (sym (names_given_are given words refl))
    (none_twice c.args.words.now.admin c.args.words.now.metrics given.admin given.metrics words c.is_name_taken.result c.is_name_taken-2.result refl refl found shown
    c.if-is_name_taken.false c.if-is_name_taken-2.false distinct)

pub returns-in-Err : goal.returns-in-Err
returns-in-Err c =
    let given = given_in c.args.words.now in
    let words = c.args.words.now.tenants.items in
    let twice = subst (λ (list : List (Bor Text)). StandsTwice (parts_of_words list) c.in-Err.name.now) c.deref-3.ensures.value c.in-Err.ensures in
    subst (λ (parts : List Text). StandsTwice (reserved_names given.admin given.metrics ++ parts) c.in-Err.name.now) (sym (names_given_are given words refl))
    (twice_given (reserved_names given.admin given.metrics) (parts_of_words words) c.in-Err.name.now twice)
