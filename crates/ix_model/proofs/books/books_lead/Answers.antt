use Rattle.ix_model.proofs.BooksLeading.{books_lead, books_lead_alike, runs_are_left}
use Rattle.ix_model.proofs.books.books_lead.Goals as goal

pub returns-clause-lead : goal.returns-clause-lead
returns-clause-lead c = books_lead

pub returns-clause-alike : goal.returns-clause-alike
returns-clause-alike c = books_lead_alike

pub returns-clause-runs : goal.returns-clause-runs
returns-clause-runs c = runs_are_left
