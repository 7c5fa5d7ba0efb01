mod Confirms
mod Hearing
mod ManyCalls
mod OneStretch
mod Overdue
mod Retries
mod Slices
mod WhenDue
